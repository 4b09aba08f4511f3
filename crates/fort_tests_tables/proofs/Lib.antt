mod ColumnOrders
